pub mod Fields
pub mod Heads
pub mod Blanks
pub mod Answers
