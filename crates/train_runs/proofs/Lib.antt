pub mod Stopping
pub mod Coding
pub mod Numbers
pub mod Departing
pub mod Posting
