pub mod Wording
