pub mod Same
pub mod Search
pub mod View
pub mod Ways
