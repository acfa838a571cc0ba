pub mod Sizings
pub mod Misfits
pub mod Prepared
pub mod Trees
