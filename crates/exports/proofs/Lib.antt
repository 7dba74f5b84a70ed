pub mod Outcomes
pub mod NotEmpty
pub mod Texts
