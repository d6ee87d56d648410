pub mod Adopt
pub mod Adopting
pub mod Repairing
