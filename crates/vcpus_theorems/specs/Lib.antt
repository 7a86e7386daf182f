pub mod Statements
pub mod Departures
