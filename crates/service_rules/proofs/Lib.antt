pub mod Nothing
pub mod Sound
