pub mod Rows
pub mod Gluing
pub mod Sources
pub mod Deeds
pub mod Indexing
pub mod Empties
pub mod Repeating
pub mod Choosing
