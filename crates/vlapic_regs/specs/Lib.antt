pub mod Lvt
pub mod Register
pub mod Vectors
