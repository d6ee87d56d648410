pub mod Clauses
pub mod Glue
pub mod Going
pub mod Running
pub mod Went
