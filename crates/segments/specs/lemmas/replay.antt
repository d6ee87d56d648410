pub mod Beginning
pub mod Ending
pub mod Kept
pub mod Reading
pub mod Shortening
pub mod Walks
pub mod WalksOn
