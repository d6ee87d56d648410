pub mod Synced
pub mod Opened
pub mod Lemmas
