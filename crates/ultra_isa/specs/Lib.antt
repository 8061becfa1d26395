pub mod Instruction
pub mod Program
pub mod Step
pub mod Meaning
