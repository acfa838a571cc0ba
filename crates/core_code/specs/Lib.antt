pub mod Registers
pub mod Answers
pub mod Runs
