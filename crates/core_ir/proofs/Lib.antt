pub mod Layers
pub mod Tight
mod SomeOutcome
pub mod Fitted
mod Having
mod Sorted
mod Deeds
pub mod NeverWrong
mod Examples
