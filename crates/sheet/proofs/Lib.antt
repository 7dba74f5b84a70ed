pub mod Entries
pub mod Fills
