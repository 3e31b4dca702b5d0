pub mod Refusals
pub mod Disk
pub mod Standing
pub mod Storing
pub mod Answers
pub mod WriterViews
