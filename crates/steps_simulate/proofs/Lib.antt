pub mod Alike
pub mod Covers
