pub mod Kinds
pub mod Layout
pub mod Headers
pub mod Orders
pub mod Faults
