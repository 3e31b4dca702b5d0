pub mod Replays
pub mod Orders
