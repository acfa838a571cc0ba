pub mod Values
pub mod Definitions
