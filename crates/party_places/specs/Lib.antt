pub mod Stretches
pub mod Searches
pub mod Parties
pub mod Causes
