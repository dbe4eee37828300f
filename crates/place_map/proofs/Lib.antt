pub mod Adding
pub mod Numbers
pub mod OwnPlaces
pub mod Classes
pub mod Apart
pub mod Halves
