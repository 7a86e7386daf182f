pub mod Common
pub mod Ipis
