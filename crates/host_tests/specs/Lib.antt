pub mod Strict
