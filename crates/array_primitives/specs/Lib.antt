pub mod Plans
pub mod Ranges
pub mod Slices
pub mod Updates
pub mod Nested
pub mod Writes
