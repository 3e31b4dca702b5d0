pub mod FileLaws
pub mod StoreLaws
pub mod StockLaws
pub mod StandLaws
pub mod LimitLaws
