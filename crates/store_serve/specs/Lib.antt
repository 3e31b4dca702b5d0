pub mod Ends
pub mod Outcome
pub mod Scripts
pub mod Served
