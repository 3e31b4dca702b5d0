pub mod NestedLemmas
pub mod FinMaps
pub mod PrefixLemmas
pub mod Triples
pub mod EntryCounts
