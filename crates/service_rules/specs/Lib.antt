pub mod Ordered
pub mod Checks
pub mod Orders
pub mod Performing
pub mod Answering
