pub mod Stops
pub mod WithLaws
