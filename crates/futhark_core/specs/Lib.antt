pub mod Acceptance
pub mod Meaning
pub mod Entering
pub mod Row
pub mod Comes
pub mod Private
