pub mod Parts
pub mod Regrown
pub mod Laws
pub mod Regions
pub mod Pushing
pub mod Readings
pub mod UseLaws
