pub mod Appended
pub mod Distinct
pub mod Fronts
pub mod HeaderLaws
pub mod SplitLaws
pub mod StepLaws
