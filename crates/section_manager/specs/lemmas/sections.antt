pub mod Cut
pub mod Entry
pub mod Lent
pub mod Over
pub mod Remove
pub mod Sync
pub mod Truncate
