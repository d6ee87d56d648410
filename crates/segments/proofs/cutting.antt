pub mod CuttingEnds
pub mod RemoveLemmas
pub mod RemovingEnds
pub mod TailLemmas
