pub mod Members
pub mod Destinations
pub mod Looking
pub mod Whole
