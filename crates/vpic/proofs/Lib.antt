pub mod Codes
pub mod Ready
pub mod Settled
pub mod Laws
pub mod Full
