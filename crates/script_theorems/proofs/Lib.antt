pub mod Boards
pub mod Calls
pub mod Heard
pub mod Pairs
pub mod Printed
pub mod Refusals
pub mod Runs
