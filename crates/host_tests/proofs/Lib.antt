pub mod Crew
pub mod StrictLemmas
