pub mod Settled
pub mod Choosing
