pub mod NothingSealed
pub mod SealedCalls
pub mod UnsealedCalls
