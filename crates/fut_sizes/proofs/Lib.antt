pub mod Erasing
pub mod Examples
pub mod Programs
