pub mod Kinds
pub mod Picked
