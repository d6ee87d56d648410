-- What the driver keeps of its tables, from step to step.
pub mod Told
