pub mod Runs
pub mod Puts
