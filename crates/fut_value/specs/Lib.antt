pub mod Data
pub mod Leaves
pub mod Values
