pub mod Faults
pub mod Contents
pub mod Reading
pub mod Answers
pub mod Writing
pub mod Copying
