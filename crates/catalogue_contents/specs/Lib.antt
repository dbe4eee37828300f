pub mod Retailers
pub mod Contents
