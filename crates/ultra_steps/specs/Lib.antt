pub mod RegisterSettings
pub mod StepLines
pub mod Copies
pub mod StepText
pub mod RegisterLaw
