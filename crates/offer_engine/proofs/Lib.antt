pub mod Candidates
pub mod Counting
pub mod Wanted
pub mod InRow
