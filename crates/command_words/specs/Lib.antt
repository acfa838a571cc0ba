pub mod CommandLine
pub mod Held
