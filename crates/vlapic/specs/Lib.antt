pub mod Regs
pub mod Answers
pub mod Priority
pub mod Registers
pub mod Calls
