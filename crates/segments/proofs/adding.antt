pub mod Adding
pub mod AppendLemmas
pub mod SettlingEnds
pub mod Spared
pub mod TailLemmas
pub mod WriteLemmas
