pub mod Walks
pub mod SetOff
pub mod Reasons
pub mod Claims
