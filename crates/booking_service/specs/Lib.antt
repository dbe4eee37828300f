pub mod Deciding
pub mod Sweeping
