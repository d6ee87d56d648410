pub mod Sections
pub mod Lasting
pub mod Reading
pub mod Shown
pub mod Removes
pub mod Syncs
pub mod Cuts
