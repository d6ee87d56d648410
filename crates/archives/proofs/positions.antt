pub mod PositionEntries
pub mod PositionLemmas
