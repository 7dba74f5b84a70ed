pub mod Blocks
pub mod Slots
pub mod Codes
pub mod Sums
pub mod LowestBit
