pub mod CoverLemmas
pub mod PageCalls
pub mod SixBytes
pub mod SlotLemmas
