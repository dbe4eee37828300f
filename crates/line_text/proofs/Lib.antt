pub mod Numbers
pub mod Steps
pub mod Parts
pub mod OneList
pub mod NoSuccessor
pub mod LineText
