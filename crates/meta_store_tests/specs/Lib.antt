-- What holds of an open map between the steps of a scenario.
pub mod Over
