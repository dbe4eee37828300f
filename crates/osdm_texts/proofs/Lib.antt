mod SweptLemmas
mod BookingTokens
pub mod Telling
