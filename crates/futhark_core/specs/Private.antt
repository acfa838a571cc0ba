pub mod Finding
pub mod Stages
