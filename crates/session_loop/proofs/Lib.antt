pub mod WriteLemmas
pub mod Serving
pub mod Views
pub mod Keeping
pub mod Handing
pub mod Records
