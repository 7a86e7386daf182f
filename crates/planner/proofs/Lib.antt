pub mod Answers
pub mod Leaves
pub mod Laws
pub mod Loops
