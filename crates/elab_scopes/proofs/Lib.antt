pub mod Tables
pub mod Finding
pub mod Tied
pub mod Words
pub mod Outside
pub mod Walking
mod Slices
mod Bytes
mod Trees
mod Indexes
mod Ways
mod Insides
