pub mod Heads
pub mod Accepted
pub mod Matching
pub mod Refusals
pub mod Calls
pub mod Plain
pub mod Facts
