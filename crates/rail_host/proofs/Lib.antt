mod Alone
mod Naming
mod Refusing
mod Untold
mod Walls
