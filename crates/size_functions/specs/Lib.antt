pub mod Takings
pub mod Arrows
