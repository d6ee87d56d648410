pub mod adding
pub mod checkpoint
pub mod cutting
pub mod held
pub mod looking
pub mod opened
pub mod replay
