pub mod Demands
pub mod Own
pub mod Lists
pub mod Records
pub mod Fields
pub mod Labels
