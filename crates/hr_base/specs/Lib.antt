pub mod Counts
pub mod Decimals
pub mod Entries
pub mod LimitRanges
pub mod NameTests
pub mod Names
pub mod Records
