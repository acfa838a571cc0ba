pub mod Elaborated
pub mod Closing
