-- The rules, which other crates cite.
pub mod Segments
pub mod Order
pub mod Trips
-- The search, which none of them cites.
pub mod Search
pub mod Best
pub mod Bounds
pub mod Boards
pub mod Ends
pub mod Shortest
pub mod Reached
pub mod Keeping
