pub mod Frontier
pub mod Groups
pub mod Queues
