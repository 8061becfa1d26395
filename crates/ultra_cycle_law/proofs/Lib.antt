pub mod Common
pub mod AtFrame
pub mod Phases
