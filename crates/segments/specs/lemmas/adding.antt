pub mod Adding
pub mod Append
pub mod Had
pub mod Write
