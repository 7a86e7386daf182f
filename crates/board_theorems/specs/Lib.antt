pub mod Rules
pub mod Highest
pub mod Traced
pub mod CounterExamples
