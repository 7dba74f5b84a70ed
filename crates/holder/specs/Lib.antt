pub mod Faults
pub mod Answers
pub mod Meanings
pub mod Rows
pub mod Ends
pub mod Kinds
pub mod Given
