pub mod Fields
pub mod Format
pub mod Chips
pub mod Cases
