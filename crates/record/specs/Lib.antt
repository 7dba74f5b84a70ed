pub mod Bytes
pub mod Faults
pub mod Records
