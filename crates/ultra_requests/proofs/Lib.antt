pub mod Alongs
pub mod NamedLines
pub mod Numbered
pub mod Steps
pub mod Found
pub mod Tables
pub mod Apart
pub mod RowOrder
pub mod RowLaws
mod WorkedRuns
