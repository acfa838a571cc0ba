pub mod Stands
pub mod Finding
pub mod Namings
pub mod TypeNamings
mod Currying
mod Openings
pub mod Growing
