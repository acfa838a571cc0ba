pub mod Placing
pub mod Reading
pub mod Standing
pub mod Storing
pub mod Turning
pub mod Valuing
pub mod Wholes
