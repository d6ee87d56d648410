pub mod MachineLaws
pub mod Outlasts
pub mod Reopening
pub mod init
pub mod put
pub mod sync
