pub mod Candidates
pub mod Adding
pub mod Won
pub mod Placed
pub mod Outs
pub mod Calm
pub mod Replying
pub mod WantedTries
