pub mod Substitutions
pub mod Putting
pub mod Reading
