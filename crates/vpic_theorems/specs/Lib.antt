pub mod Statements
pub mod Rule
pub mod Rotation
pub mod Modes
pub mod OnPair
