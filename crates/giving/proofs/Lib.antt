pub mod Counts
pub mod Places
pub mod Fronts
pub mod Made
