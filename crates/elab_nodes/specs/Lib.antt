pub mod Built
pub mod Composed
pub mod Held
pub mod Paths
