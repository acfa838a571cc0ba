pub mod Pairs
pub mod Rule
