pub mod PieceLaws
pub mod Reading
pub mod WalkLaws
