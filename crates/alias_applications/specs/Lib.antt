pub mod Shown
pub mod Givens
pub mod Rules
pub mod Results
