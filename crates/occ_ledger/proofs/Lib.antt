pub mod KeyLaws
pub mod ScanLaws
pub mod ListLaws
