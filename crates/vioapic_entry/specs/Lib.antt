pub mod Answers
pub mod Redirection
