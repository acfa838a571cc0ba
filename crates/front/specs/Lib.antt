pub mod Acceptance
pub mod Entries
pub mod Stages
pub mod EntryNameEntries
