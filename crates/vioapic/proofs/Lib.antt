pub mod Words
pub mod Entries
pub mod Flight
pub mod Every
pub mod Ways
pub mod Agree
pub mod Same
pub mod Cases
