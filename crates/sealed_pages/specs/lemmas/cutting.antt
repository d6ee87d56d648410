pub mod Calls
pub mod Cuts
pub mod Shortening
pub mod Steps
pub mod Truncating
