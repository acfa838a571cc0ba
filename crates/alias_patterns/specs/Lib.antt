pub mod Wanted
pub mod Fields
pub mod Heads
pub mod Placing
pub mod Ruled
