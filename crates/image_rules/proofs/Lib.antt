pub mod Tests
pub mod Pair
