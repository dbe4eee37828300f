pub mod Homes
pub mod Oks
