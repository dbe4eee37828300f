pub mod Prices
pub mod Refunds
