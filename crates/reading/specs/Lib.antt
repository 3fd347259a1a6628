pub mod Reading
pub mod Asks
