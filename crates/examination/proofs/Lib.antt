pub mod Runs
pub mod Grants
pub mod TrueTraces
