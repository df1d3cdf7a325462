pub mod Faults
pub mod StepMeanings
