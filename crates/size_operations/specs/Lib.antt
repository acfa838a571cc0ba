pub mod Values
pub mod Answers
pub mod Elements
pub mod Indexing
pub mod Ranges
pub mod Records
pub mod Plain
