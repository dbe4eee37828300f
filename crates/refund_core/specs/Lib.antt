pub mod Releasing
pub mod Quotes
pub mod Refunding
