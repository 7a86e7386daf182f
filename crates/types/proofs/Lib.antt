pub mod Counters
pub mod Replies
