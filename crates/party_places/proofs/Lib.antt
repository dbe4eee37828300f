pub mod Rows
pub mod Sides
pub mod Searching
pub mod Taking
pub mod Trying
pub mod Spoiling
pub mod Seated
pub mod Steps
