pub mod Board
pub mod Promise
pub mod Calls
