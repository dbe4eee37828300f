pub mod Texts
pub mod Printing
pub mod Opened
pub mod Folded
pub mod Written
pub mod Streams
pub mod Without
