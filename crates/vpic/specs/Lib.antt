pub mod Words
pub mod Pair
pub mod Claim
pub mod Departures
