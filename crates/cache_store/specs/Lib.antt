-- What a cache means to the layers above: a state of a machine of lists (`Machine`), which images
-- are lawful and what they keep (`Kept`), and which states they stand for (`Standing`). `Changes`
-- has what each call promises.
pub mod Machine
pub mod Records
pub mod RecordLaws
pub mod Kept
pub mod Standing
pub mod Reopening
pub mod Filing
pub mod Holding
pub mod Config
pub mod Caches
pub mod Changes
pub mod Entering
pub mod Refusals
pub mod Opens
pub mod Recovering
pub mod Elsewhere
pub mod Replayed
pub mod Shown
