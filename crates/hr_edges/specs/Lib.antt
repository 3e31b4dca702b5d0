pub mod Edges
pub mod Schedules
