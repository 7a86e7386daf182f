pub mod Starting
pub mod Going
