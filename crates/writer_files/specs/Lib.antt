pub mod Hands
pub mod HandCalls
pub mod Stocks
pub mod HandProps
pub mod StockCalls
pub mod StockViews
