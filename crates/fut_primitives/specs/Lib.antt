pub mod Written
pub mod Table
pub mod Names
