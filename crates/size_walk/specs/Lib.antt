pub mod Walked
pub mod Lambdas
pub mod Ways
