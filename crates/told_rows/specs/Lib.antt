pub mod Tables
pub mod Shapes
pub mod Places
pub mod Findings
pub mod Arguments
pub mod Calls
pub mod Taken
