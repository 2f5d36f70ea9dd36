pub mod Xor
pub mod Digits
