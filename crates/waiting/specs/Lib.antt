pub mod Answers
pub mod Lists
pub mod Steps
pub mod Waiting
