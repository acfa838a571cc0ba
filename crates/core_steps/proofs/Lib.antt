mod Counting
pub mod Taking
pub mod Bundling
pub mod Operands
pub mod Sizing
mod Weighing
mod Gathering
mod Glueing
pub mod Sourcing
mod Makes
mod Indices
mod Emptying
pub mod Literals
mod Repeating
mod Choosing
pub mod Places
pub mod Parting
mod Besides
