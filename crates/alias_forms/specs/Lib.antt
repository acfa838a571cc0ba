pub mod Plain
pub mod Seen
pub mod Walked
pub mod Rows
pub mod Functions
pub mod Turns
pub mod Loops
