pub mod Maps
pub mod Nested
