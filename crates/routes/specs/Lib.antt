pub mod Places
pub mod Claims
pub mod Steps
pub mod Gauges
pub mod Laws
