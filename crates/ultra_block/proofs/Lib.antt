pub mod Seen
pub mod Built
pub mod Dealt
pub use Rattle.ultra_partition.proofs.NothingHeld
