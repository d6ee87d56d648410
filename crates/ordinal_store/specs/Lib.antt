-- What a range set means to the crates above: a set of numbers below 2 ^ 64. A contract sees it
-- as the list of its ranges, which are the maximal runs of that set in ascending order, and every
-- answer is a fact about the set.
pub mod Numbers
pub mod Indices
pub mod SetLaws
pub mod Ranges
pub mod tree
pub mod Plain
pub mod Bits
pub mod Slots
pub mod Marking
pub mod Raised
pub mod Durable
pub mod Stores
pub mod Calls
pub mod Mending
pub mod Adopting
pub mod Steps
pub mod Shown
pub mod Removing
pub mod Emptying
pub mod Reopening
pub mod Restoring
