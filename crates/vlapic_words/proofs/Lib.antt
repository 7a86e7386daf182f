pub mod Runs
pub mod Search
pub mod View
pub mod Ways
