pub mod Vcpu
pub mod Ipi
pub mod Steps
pub mod Cases
