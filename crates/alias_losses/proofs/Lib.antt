pub mod Tables
pub mod Linked
pub mod Finding
pub mod Keeping
pub mod Losing
