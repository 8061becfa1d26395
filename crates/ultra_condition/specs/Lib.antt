pub mod Condition
pub mod ConditionOf
pub mod Meaning
pub mod Limits
pub mod Words
pub mod Grammar
pub mod Naming
