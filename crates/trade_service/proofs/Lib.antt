pub mod Ids
pub mod Calm
pub mod Replying
pub mod Settling
pub mod Exchanging
