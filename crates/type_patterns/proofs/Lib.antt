pub mod Asking
pub mod Own
pub mod Labelling
pub mod Using
pub mod Rows
pub mod Forms
pub mod Weighing
