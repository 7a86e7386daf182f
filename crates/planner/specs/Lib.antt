pub mod Answers
pub mod Lines
pub mod Check
pub mod Plan
pub mod Shortage
