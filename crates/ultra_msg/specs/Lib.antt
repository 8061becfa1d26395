pub mod Act
pub mod Pair
pub mod Bytes
pub mod Packet
pub mod Slot
