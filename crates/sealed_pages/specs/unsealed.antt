pub mod Writing
pub mod RunCalls
