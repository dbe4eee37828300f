pub mod Clocks
pub mod Faults
pub mod Files
pub mod Told
pub mod Standard
pub mod Memory
pub mod Answers
pub mod Journals
