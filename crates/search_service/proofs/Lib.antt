pub mod Every
pub mod Spellings
pub mod Numbers
pub mod Answers
