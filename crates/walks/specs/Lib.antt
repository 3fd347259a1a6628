pub mod Walk
pub mod Label
pub mod Claims
