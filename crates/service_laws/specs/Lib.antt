pub mod Begun
pub mod Complete
pub mod Honoured
pub mod Commands
pub mod Told
pub mod Bounded
