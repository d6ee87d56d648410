pub mod Changes
pub mod Entries
pub mod Indices
pub mod Lemmas
pub mod Steps
