pub mod Walked
pub mod Lets
pub mod Compositions
pub mod Loops
pub mod Shown
