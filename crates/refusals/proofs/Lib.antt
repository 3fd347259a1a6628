pub mod Faults
pub mod Early
