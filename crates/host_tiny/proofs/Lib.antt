pub mod Hosting
pub mod JsonFacts
mod WorkedBodies
pub mod Pieces
pub mod Selling
pub mod Freeness
pub mod Reserving
