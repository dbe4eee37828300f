pub mod Closed
pub mod LifeSealing
