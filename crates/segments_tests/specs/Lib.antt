pub mod Cursors
pub mod Stores
