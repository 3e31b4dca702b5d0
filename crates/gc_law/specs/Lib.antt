pub mod Events
pub mod WriterFacts
pub mod CollectorFacts
pub mod Both
pub mod Restarting
pub mod Steps
pub mod Ties
pub mod SmallStore
