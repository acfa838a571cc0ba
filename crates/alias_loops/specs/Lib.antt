pub mod Carried
pub mod Labels
pub mod Lowest
pub mod Rules
pub mod Turning
pub mod Written
