pub mod Wanted
pub mod Sharing
pub mod Going
pub mod Composed
