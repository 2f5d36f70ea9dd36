pub mod Cases
pub mod Facts
pub mod Accepted
pub mod Answers
pub mod Timers
pub mod Bound
