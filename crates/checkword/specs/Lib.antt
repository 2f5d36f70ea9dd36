pub mod Bytes
pub mod Polynomial
pub mod Generators
pub mod Word
pub mod Rows
pub mod Turn
pub mod Facts
