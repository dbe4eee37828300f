pub mod Chains
pub mod Crewing
