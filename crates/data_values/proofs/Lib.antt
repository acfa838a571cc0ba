pub mod Shapes
pub mod FromValues
pub mod FromData
pub mod ManyValues
