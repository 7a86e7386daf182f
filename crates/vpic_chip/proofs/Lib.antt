pub mod Packing
pub mod Laws
pub mod Full
