pub mod Counting
pub mod Calls
pub mod Steps
pub mod Bound
pub mod Flight
pub mod Line
pub mod Forever
