pub mod Para
pub mod Report
pub mod Careful
pub mod Law
pub mod ParaState
