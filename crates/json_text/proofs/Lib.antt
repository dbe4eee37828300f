pub mod Trees
pub mod Turns
pub mod Passed
pub mod Outlined
pub mod Listed
pub mod Counted
