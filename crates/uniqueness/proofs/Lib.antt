pub mod Ruling
pub mod Growing
pub mod Branching
pub mod Stepping
