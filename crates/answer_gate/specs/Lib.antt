pub mod Standings
pub mod Receipts
