pub mod Trace
pub mod Bound
pub mod CounterExamples
pub mod Forever
