pub mod Words
pub mod Save
pub mod Restore
