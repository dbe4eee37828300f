pub mod Trying
pub mod Blocks
pub mod Adding
pub mod Giving
pub mod Contending
