pub mod Chunks
pub mod Calls
