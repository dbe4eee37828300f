pub mod Files
pub mod Loading
pub mod Opening
pub mod Prints
pub mod Journals
pub mod Notes
pub mod Ends
pub mod Noted
