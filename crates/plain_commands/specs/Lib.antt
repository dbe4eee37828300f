pub mod Devices
pub mod Plain
