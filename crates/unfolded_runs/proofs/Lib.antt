pub mod Data
pub mod Runs
pub mod Walks
pub mod Limits
pub mod Blocks
pub mod SomeSizing
