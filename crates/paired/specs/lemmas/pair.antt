pub mod Appending
pub mod Blobs
pub mod Facts
pub mod Failing
pub mod Holding
pub mod Reads
pub mod Synced
