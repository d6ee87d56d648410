pub mod Cache
pub mod Held
pub mod Holding
