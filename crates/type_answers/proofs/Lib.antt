pub mod Opens
pub mod Settled
pub mod LeftLaws
pub mod Typings
pub mod Programs
pub mod Richness
pub mod Spelling
