pub mod Rows
pub mod Typings
pub mod Nodes
