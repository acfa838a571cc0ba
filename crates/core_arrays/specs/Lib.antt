pub mod Arenas
pub mod Wholes
