pub mod Late
pub mod Machine
pub mod Run
pub mod Cases
