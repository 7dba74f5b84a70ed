pub mod Faults
pub mod Rules
pub mod Calls
pub mod Meanings
pub mod Sessions
pub mod Laws
