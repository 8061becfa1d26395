pub mod SameStep
pub mod Fresh
pub mod Issues
pub mod Registers
pub mod CycleCopies
pub mod Cursor
pub mod Loops
pub mod Texts
mod WorkedSteps
