pub mod Orders
pub mod Kinds
pub mod Traces
