pub mod Refunds
pub mod Exchanges
