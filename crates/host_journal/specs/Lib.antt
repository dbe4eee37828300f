pub mod Ends
pub mod Causes
pub mod Logs
pub mod Left
pub mod Moments
pub mod Ahead
pub mod There
