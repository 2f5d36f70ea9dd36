pub mod Called
pub mod Cases
pub mod Facts
pub mod Order
pub mod Searches
