pub mod Entries
pub mod Kept
pub mod Phases
pub mod Resting
pub mod Start
