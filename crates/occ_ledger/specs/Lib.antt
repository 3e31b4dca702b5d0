pub mod Marks
pub mod Lists
pub mod Scans
pub mod Ledgers
