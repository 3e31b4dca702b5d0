pub mod Decimals
pub mod EntryLaws
pub mod HexDigits
pub mod NameOrder
pub mod NameTestLaws
pub mod NameTexts
pub mod Orders
