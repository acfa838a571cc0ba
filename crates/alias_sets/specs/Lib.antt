pub mod Sets
pub mod Merging
