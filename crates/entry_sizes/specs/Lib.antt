pub mod Heads
pub mod Wanted
