pub mod Listed
pub mod Saving
pub mod Restoring
