pub mod Lemmas
pub mod Rows
pub mod Stands
pub mod Sync
