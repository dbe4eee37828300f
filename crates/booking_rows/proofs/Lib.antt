pub mod StartLemmas
pub mod SearchLemmas
pub mod NoteLemmas
pub mod CloseLemmas
pub mod ViewLemmas
pub mod TurnLemmas
pub mod Looked
pub mod Ended
