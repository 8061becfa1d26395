mod WorkedMeasures
pub mod Gathered
pub mod Counted
pub mod Emptiness
pub mod Events
pub mod More
pub mod Keeping
pub mod StageDepths
pub mod Waiting
pub mod ModuleCounts
pub mod Chain
pub mod Ends
pub mod Windows
pub mod Tallies
pub mod PeSets
pub mod Known
pub mod InterfaceSums
pub mod Resting
