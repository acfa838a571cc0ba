pub mod Sizes
pub mod Standing
