pub mod Board
pub mod Chips
pub mod Local
pub mod Outcomes
pub mod Places
pub mod Runs
pub mod Steps
