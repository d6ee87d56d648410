pub mod buffers
pub mod sections
pub mod CountLemmas
pub mod WalkLemmas
pub mod NumberLemmas
pub mod InitLemmas
