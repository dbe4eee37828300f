mod Plain
mod SmallLemmas
pub mod Chains
mod PlaceLines
mod Shown
mod Ascii
