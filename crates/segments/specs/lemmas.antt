pub mod FixedErrors
pub mod FixedOwed
pub mod FixedRested
pub mod FixedSpared
pub mod adding
pub mod cutting
pub mod held
pub mod replay
