pub mod Confirming
pub mod Fulfilling
pub mod Looks
pub mod RowEnds
