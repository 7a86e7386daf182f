pub mod Counting
pub mod Giving
pub mod Hall
pub mod Theorems
pub mod Examples
