pub mod Stations
pub mod Stops
pub mod Runs
pub mod Departures
pub mod Boards
