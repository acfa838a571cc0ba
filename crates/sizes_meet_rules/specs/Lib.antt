pub mod Known
pub mod Plain
pub mod Claims
