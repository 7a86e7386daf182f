pub mod Registers
pub mod Chip
