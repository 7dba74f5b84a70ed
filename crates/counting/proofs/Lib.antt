pub mod BlocksWithPosition
pub mod Kept
pub mod Held
pub mod Fronts
