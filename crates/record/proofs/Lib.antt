pub mod Digits
pub mod Codec
