pub mod Exports
pub mod Tidy
pub mod Right
pub mod Reads
pub mod Drafts
pub mod Imports
pub mod Laws
pub mod Written
