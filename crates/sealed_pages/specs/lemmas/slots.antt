pub mod PageCalls
pub mod SealedBytes
pub mod Slot
pub mod SlotSteps
pub mod Steps
pub mod Whole
