pub mod Entries
pub mod Ring
pub mod First
