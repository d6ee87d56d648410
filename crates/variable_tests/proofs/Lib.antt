pub mod KeepingLemmas
pub mod StartLemmas
