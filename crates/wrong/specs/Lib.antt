pub mod IdleTimes
pub mod OtherTables
pub mod WrongLinks
pub mod WrongChecks
