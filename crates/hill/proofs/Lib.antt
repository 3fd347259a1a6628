pub mod Walks
pub mod Outcomes
pub mod Charges
pub mod Rows
pub mod Excluded
