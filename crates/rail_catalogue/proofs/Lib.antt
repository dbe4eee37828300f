pub mod JsonFacts
pub mod Stationing
pub mod Fronts
