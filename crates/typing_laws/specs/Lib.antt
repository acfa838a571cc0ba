pub mod Parameters
pub mod Ways
pub mod Claims
pub mod Alike
pub mod NumberingClaims
