pub mod Service
pub mod Departures
pub mod Targets
pub mod Sending
pub mod Numbers
pub mod Priorities
pub mod Cases
