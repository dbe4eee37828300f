pub mod Numbers
pub mod Rows
pub mod Ranges
pub mod ServeRows
pub mod Drilling
pub mod Three
pub mod WindowRows
pub mod AddressRows
