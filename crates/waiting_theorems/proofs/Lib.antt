pub mod Apart
pub mod Bytes
pub mod Conserved
pub mod Examples
pub mod Refused
pub mod Steps
