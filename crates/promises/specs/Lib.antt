pub mod Order
pub mod Given
pub mod Promises
pub mod Claims
pub mod ClaimsSetOff
pub mod Passed
