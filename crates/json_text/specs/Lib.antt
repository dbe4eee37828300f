pub mod View
pub mod Outlines
pub mod Ahead
