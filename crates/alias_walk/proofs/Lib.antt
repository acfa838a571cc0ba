pub mod Walking
pub mod Answers
pub mod Ends
pub mod Loops
