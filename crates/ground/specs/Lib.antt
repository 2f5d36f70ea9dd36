pub mod Choice
pub mod Numbers
