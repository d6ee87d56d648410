-- What holds of an open blob between the steps of a scenario.
pub mod Holding
