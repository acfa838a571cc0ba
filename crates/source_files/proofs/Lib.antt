pub mod Finding
pub mod Putting
mod Steps
mod Closed
pub mod One
