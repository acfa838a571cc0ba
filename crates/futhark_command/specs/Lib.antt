pub mod Call
pub mod Private
