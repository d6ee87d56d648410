pub mod Errors
pub mod Lemmas
pub mod Names
pub mod Stored
pub mod UnderWay
