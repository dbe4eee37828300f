pub mod Ready
pub mod Exchanges
pub mod Accepting
