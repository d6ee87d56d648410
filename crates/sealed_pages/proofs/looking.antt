pub mod Looking
pub mod PieceLemmas
pub mod ReadLemmas
pub mod ReplayLemmas
