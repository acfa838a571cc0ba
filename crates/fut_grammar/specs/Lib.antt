pub mod Reading
pub mod Phrases
pub mod FreeNames
