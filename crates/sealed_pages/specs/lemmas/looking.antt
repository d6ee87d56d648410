pub mod Looking
pub mod Read
pub mod Replay
