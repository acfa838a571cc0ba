pub mod Agreed
pub mod Arrows
