pub mod Boards
pub mod Examples
pub mod Heard
pub mod Pairs
pub mod Parts
pub mod Printed
pub mod Refusals
pub mod Runs
