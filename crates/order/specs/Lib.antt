pub mod Steps
pub mod Times
pub mod Orders
pub mod Strict
pub mod Laws
pub mod ByPlace
