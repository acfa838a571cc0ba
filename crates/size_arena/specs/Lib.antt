pub mod Trees
pub mod Answers
pub mod Frames
pub mod Changes
