pub mod Joined
pub mod Sifting
pub mod Mapping
pub mod Reducing
pub mod Scanning
pub mod Carrying
