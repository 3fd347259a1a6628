pub mod Program
pub mod Shared
