pub mod Frames
pub mod Storing
pub mod ScalarWords
pub mod Reading
mod Operations
