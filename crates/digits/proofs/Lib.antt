pub mod Spelled
pub mod Taking
pub mod Lines
pub mod Reading
pub mod Decimal
pub mod Plain
pub mod Writing
