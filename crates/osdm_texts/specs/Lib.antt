pub mod Sweeps
pub mod Bookings
pub mod Seen
pub mod Replies
pub mod EndTokens
pub mod Answers
