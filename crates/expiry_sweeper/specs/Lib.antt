pub mod OneRow
pub mod AllRows
pub mod Complete
