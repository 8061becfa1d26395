pub mod CellsGiven
pub mod Runs
pub mod Verdicts
