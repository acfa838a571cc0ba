pub mod Weights
pub mod Flats
pub mod Leaves
