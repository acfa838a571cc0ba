pub mod Together
pub mod Permutes
pub mod Ranges
pub mod Orders
pub mod Law
pub mod Parts
pub mod Tables
pub mod Words
