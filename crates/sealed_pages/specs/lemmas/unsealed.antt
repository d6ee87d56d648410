pub mod Content
pub mod Lasting
pub mod Sparing
pub mod Tails
pub mod Writing
