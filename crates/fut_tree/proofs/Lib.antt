pub mod Layers
pub mod ModSizes
pub mod PatSizes
pub mod Pushed
pub mod Sizes
pub mod TypeSizes
