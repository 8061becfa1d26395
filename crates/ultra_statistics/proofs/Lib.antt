pub mod Moving
pub mod Ends
pub mod Walking
pub mod Windows
pub mod Idle
pub mod Standing
pub mod Keeping
pub mod Tables
mod WorkedQueues
pub mod CountLists
pub mod Histograms
pub mod EventLaws
pub mod PortLaws
mod WorkedLatencies
