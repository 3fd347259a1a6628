pub mod Files
pub mod Check
