pub mod Sweeping
pub mod Counting
pub mod Own
pub mod Standing
pub mod Completing
