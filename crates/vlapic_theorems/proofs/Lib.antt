pub mod Service
pub mod Targets
pub mod Sending
pub mod Numbers
pub mod Priorities
