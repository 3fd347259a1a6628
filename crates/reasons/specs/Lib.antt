pub mod Asks
pub mod Marks
