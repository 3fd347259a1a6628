pub mod Closed
pub mod SetOff
pub mod Reasons
