pub mod Blocks
pub mod Helds
pub mod Indices
pub mod Laws
pub mod Slots
pub mod Views
pub mod Walks
