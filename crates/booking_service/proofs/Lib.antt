pub mod Calm
pub mod Replying
pub mod Ids
