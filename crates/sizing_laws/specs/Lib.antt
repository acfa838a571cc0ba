pub mod Renumbering
pub mod Renaming
pub mod Order
pub mod Example
pub mod Claims
pub mod Sources
