mod Telling
pub mod Naming
pub mod Owned
pub mod Replying
pub mod Connecting
pub mod Alone
pub mod Carried
pub mod Going
pub mod Looking
pub mod Sparing
pub mod Walking
pub mod Pathways
pub mod Handing
pub mod Performed
pub mod Awaiting
