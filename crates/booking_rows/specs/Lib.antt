pub mod Starts
pub mod Searches
pub mod Notes
pub mod Aims
pub mod Views
pub mod Ends
pub mod SealedRows
