pub mod Rows
pub mod Ranges
pub mod Carries
