-- What holds of an open archive between the steps of a scenario.
pub mod Over
