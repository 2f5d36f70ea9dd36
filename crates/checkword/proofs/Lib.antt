pub mod Xor
pub mod Bytes
pub mod Shift
pub mod Run
pub mod Remainder
pub mod Rows
pub mod Turn
pub mod Facts
