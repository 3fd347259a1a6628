mod Places
mod Following
mod Profiles
mod Walking
pub mod Exactly
pub mod Low
