pub mod CacheLemmas
pub mod HeldLemmas
pub mod Holding
pub mod MemoryLemmas
