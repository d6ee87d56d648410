pub mod Buffers
pub mod Calls
pub mod Lending
pub mod LentReaders
pub mod Passing
pub mod Sections
