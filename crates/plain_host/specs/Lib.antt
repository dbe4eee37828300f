pub mod Plain
pub mod Outcomes
pub mod PlainOf
pub mod Settled
pub mod Found
pub mod Plainly
