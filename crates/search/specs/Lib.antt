pub mod Sizes
pub mod State
pub mod Trails
pub mod Chains
pub mod Steps
pub mod Searches
