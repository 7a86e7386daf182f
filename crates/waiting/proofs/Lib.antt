pub mod Ring
pub mod Lists
