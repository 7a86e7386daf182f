pub mod Same
pub mod Ways
