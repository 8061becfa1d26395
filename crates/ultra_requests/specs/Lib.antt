pub mod EventLines
pub mod RequestTable
pub mod Along
pub mod CycleRows
pub mod RowLaw
