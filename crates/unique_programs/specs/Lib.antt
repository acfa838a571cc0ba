pub mod Rules
pub mod Variables
pub mod Misuses
pub mod Sizes
pub mod Layers
pub mod Shown
pub mod Giving
