pub mod Host
pub mod Json
pub mod Replies
pub mod Reservations
pub mod Responding
pub mod Run
pub mod Tiny
pub mod Wish
