pub mod Requests
pub mod Promise
pub mod Cases
