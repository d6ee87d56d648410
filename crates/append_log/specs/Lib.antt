pub mod Appended
pub mod lemmas
