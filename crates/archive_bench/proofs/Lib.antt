pub mod PhaseLemmas
pub mod SyncedLemmas
