pub mod Causes
pub mod Fails
pub mod Finding
pub mod Records
pub mod Values
