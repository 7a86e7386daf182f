pub mod Places
pub mod Hosts
pub mod Gathered
pub mod Texts
