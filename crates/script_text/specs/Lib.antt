pub mod Fields
pub mod Lines
pub mod Replies
pub mod Dumps
pub mod Texts
pub mod Scripts
