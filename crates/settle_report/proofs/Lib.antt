pub mod RowFacts
pub mod AccountFacts
pub mod TableFacts
pub mod TextFacts
pub mod Opened
