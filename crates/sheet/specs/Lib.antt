pub mod Faults
pub mod Alike
pub mod Pairing
pub mod Entering
pub mod Consistency
pub mod Sheets
