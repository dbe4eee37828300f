pub mod Lone
pub mod Decided
