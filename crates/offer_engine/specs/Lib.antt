pub mod Codes
pub mod Offers
