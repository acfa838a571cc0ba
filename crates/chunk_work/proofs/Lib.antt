pub mod Chunks
pub mod Ordered
pub mod Putting
