pub mod Bounds
pub mod Queues
