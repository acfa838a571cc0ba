pub mod Table
pub mod Scopes
pub mod Parameters
pub mod Definitions
