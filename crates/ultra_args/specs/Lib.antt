pub mod Grammar
pub mod Asked
