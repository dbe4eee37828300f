pub mod Ending
pub mod Exchanging
pub mod Kept
