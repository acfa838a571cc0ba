pub mod Inferring
pub mod Definitions
pub mod Graphs
pub mod Refusals
pub mod Reading
