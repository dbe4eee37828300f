pub mod Runs
pub mod Complete
pub mod Letters
pub mod Quotes
