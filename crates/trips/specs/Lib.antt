pub mod Asks
pub mod Ways
pub mod Found
