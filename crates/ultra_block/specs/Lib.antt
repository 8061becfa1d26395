pub mod State
pub mod Fresh
pub mod Dealt
pub use Rattle.ultra_partition.specs.Cut
pub use Rattle.ultra_partition.specs.Holding
pub use Rattle.ultra_block_core.specs.declared.held.Held
pub use Rattle.ultra_block_core.specs.Holding.{IsSetOf}
