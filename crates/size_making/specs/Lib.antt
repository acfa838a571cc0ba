pub mod Makings
pub mod Uses
pub mod Letters
pub mod Placing
