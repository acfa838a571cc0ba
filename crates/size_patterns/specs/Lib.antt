pub mod Heads
pub mod Rows
pub mod Changes
pub mod Fields
pub mod Written
pub mod Arrows
pub mod Bound
