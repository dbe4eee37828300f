pub mod Risen
pub mod Over
pub mod Turns
pub mod Crews
pub mod Serve
pub mod Telling
pub mod Kept
