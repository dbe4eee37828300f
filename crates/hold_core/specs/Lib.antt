pub mod Tries
pub mod Places
pub mod Contending
