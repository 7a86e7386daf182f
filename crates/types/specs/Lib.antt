pub mod Counters
pub mod Departure
pub mod Reply
