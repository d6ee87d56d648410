pub mod Init
pub mod Keys
pub mod Number
pub mod Seen
pub mod Walk
pub mod buffers
pub mod sections
