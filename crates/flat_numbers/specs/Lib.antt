pub mod Fields
pub mod Listed
pub mod Trees
pub mod Noted
pub mod Places
pub mod PlaceNoted
