pub mod Merging
pub mod Members
