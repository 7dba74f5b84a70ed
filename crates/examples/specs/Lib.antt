pub mod Histories
pub mod Examples
