pub mod Layers
pub mod SomeOutcome
mod Examples
