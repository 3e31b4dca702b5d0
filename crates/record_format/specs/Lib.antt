pub mod Headers
pub mod Prefixes
pub mod Spelling
pub mod Splits
pub mod Steps
