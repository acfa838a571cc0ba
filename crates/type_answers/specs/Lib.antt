pub mod Settled
pub mod Left
pub mod Typings
pub mod Programs
pub mod Richness
