pub mod Sifting
pub mod Phases
pub mod Carrying
