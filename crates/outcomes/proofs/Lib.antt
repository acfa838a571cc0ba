pub mod Each
pub mod Glue
pub mod Trees
pub mod Winners
pub mod Combined
