pub mod Notes
pub mod Events
pub mod Books
pub mod Live
pub mod Worked
