pub mod Pairs
pub mod Kept
pub mod Moves
pub mod InAgreement
pub mod Buffers
pub mod Agreed
pub mod Slots
