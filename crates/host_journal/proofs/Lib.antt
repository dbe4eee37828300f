pub mod Left
pub mod Running
pub mod Again
pub mod OneAnswer
