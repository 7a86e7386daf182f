pub mod CounterExamples
pub mod CounterExamples20
pub mod Heard
pub mod Heard20
pub mod Masking
pub mod Premises
pub mod Rules
pub mod Sends
