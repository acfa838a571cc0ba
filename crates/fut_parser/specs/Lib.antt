pub mod Places
pub mod Private
