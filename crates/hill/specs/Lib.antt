pub mod Hill
pub mod Table
pub mod Broken
pub mod Charges
