pub mod Items
pub mod Outcome
