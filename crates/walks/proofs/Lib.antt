pub mod Bounds
pub mod Loops
pub mod Stops
pub mod Turned
