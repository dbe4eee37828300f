pub mod Giving
pub mod Trying
