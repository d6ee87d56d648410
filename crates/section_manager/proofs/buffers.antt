pub mod UnsealedCalls
pub mod SealedCalls
