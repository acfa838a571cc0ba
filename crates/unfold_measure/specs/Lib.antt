pub mod Held
pub mod Answers
pub mod Rows
pub mod Steps
pub mod Plain
pub mod Patterns
pub mod Fields
pub mod Program
