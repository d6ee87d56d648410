pub mod Ends
pub mod Laws
pub mod Phases
pub mod Start
pub mod StartRefusals
