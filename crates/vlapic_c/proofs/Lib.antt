pub mod Ways
pub mod Same
