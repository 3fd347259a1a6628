pub mod Passes
pub mod Records
