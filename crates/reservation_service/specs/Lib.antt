pub mod Outs
pub mod Holding
pub mod Segments
pub mod Reserving
