pub mod Vectors
pub mod Sent
pub mod Rules
pub mod Highest
pub mod Trace
pub mod Entries
pub mod Exact
pub mod Healed
