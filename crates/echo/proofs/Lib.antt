pub mod Echo
pub mod Linear
