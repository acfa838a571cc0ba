pub mod LinePieces
pub mod Joined
