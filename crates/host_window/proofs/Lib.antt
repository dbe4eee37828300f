pub mod Joining
pub mod Runs
pub mod Sums
pub mod ReplyTexts
