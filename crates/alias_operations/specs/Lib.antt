pub mod Operating
pub mod Recording
pub mod Paths
