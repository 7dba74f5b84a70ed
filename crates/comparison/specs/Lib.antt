pub mod Heaps
pub mod Hashes
pub mod Words
pub mod Pieces
pub mod Calls
pub mod Cases
pub mod Files
pub mod Laws
