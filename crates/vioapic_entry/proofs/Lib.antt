pub mod Cases
pub mod EntryLaws
pub mod Fields
pub mod Same
