pub mod Varint
pub mod VarintPrefix
