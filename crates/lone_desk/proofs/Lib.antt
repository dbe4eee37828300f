pub mod Following
pub mod Looking
pub mod Starting
pub mod OwnRow
pub mod Clear
pub mod Finding
