pub mod Finishing
pub mod Replaying
pub mod Exporting
pub mod Settling
pub mod Recovering
