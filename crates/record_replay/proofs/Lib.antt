pub mod SameFacts
pub mod FoundLaws
pub mod OrderLaws
pub mod ClashLaws
pub mod PlayLaws
pub mod LimitLaws
