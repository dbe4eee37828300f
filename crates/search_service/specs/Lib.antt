pub mod Searching
pub mod Numbering
