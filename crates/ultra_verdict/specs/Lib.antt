pub mod VerdictText
pub mod Judged
pub mod Faults
pub mod Case
