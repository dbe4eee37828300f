pub mod Texts
pub mod Reads
pub mod Folds
pub mod Faults
pub mod Rooms
pub mod Laws
