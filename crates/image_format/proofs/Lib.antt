pub mod Bytes
pub mod Laws
pub mod Rounds
pub mod Rows
