pub mod AppendedLemmas
pub mod Grows
