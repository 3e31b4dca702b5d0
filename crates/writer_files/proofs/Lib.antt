pub mod ListLaws
pub mod HandLaws
pub mod TakingLaws
pub mod SyncLaws
pub mod OutLaws
pub mod StockLaws
pub mod GiveLaws
