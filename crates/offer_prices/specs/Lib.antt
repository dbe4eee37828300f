pub mod Prices
pub mod Runs
