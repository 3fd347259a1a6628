pub mod Digits
pub mod Line
pub mod Decimal
pub mod Claims
pub mod Taking
pub mod Puts
