pub mod VarintPrefix
pub mod VarintLemmas
