pub mod Seats
pub mod Places
pub mod Candidates
pub mod ByClass
