pub mod Tie
pub mod Parts
