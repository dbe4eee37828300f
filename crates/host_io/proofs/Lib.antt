pub mod Sending
pub mod Reading
pub mod Setting
pub mod Staying
pub mod Places
