pub mod Answers
pub mod Slots
pub mod Runs
pub mod Primitives
pub mod Evaluates
pub mod Shapes
