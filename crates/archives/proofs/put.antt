pub mod After
pub mod Errors
pub mod Lemmas
pub mod Rows
pub mod Sound
pub mod Stands
pub mod Sync
pub mod SyncsLemmas
