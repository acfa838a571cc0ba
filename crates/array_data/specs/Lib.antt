pub mod Held
pub mod Answers
pub mod Records
pub mod Depths
pub mod Changes
pub mod formers
