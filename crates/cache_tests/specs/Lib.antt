-- What is open in a scenario.
pub mod Stores
