pub mod Tasks
pub mod Faults
pub mod Words
pub mod Exchanged
pub mod Start
pub mod ExpectedResults
pub use Rattle.ultra_block.specs.State
pub use Rattle.ultra_partition.specs.Cut
