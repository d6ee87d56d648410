pub mod Adopted
pub mod GettingEnds
pub mod ItemReads
pub mod Memory
pub mod ReadLemmas
