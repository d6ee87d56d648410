pub mod Adopting
pub mod Clearing
pub mod Keeping
pub mod KnownLemmas
pub mod Leftovers
pub mod Reopen
pub mod Starting
