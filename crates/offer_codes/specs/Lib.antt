pub mod Marked
pub mod Rows
pub mod Found
pub mod Offers
pub mod Refunds
pub mod Exchanges
