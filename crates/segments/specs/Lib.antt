-- What this layer means to the layers above: of each section a list of items of one size
-- (`FixedItems`), in the bytes that a manager of sealed sections keeps (`FixedLists`). What a
-- marker vouches for is in `FixedFloors`, and what a replay gives, cuts and refuses in
-- `FixedReplay`. What a crash leaves of a section is said by the layer below, of its bytes.
pub mod FixedAdding
pub mod FixedBounds
pub mod FixedCheckpoint
pub mod FixedChecks
pub mod FixedCursor
pub mod FixedCutting
pub mod FixedDraining
pub mod FixedFinishing
pub mod FixedFloors
pub mod FixedFull
pub mod FixedGetting
pub mod FixedGiving
pub mod FixedItems
pub mod FixedLasting
pub mod FixedLists
pub mod FixedNext
pub mod FixedOpens
pub mod FixedPreflight
pub mod FixedReading
pub mod FixedRemoving
pub mod FixedReplay
pub mod FixedResting
pub mod FixedSettling
pub mod FixedShown
pub mod FixedStepping
pub mod FixedWalking
pub mod Tails
pub mod lemmas
