pub mod Forms
pub mod Rows
pub mod Typings
pub mod Variables
pub mod GivenForms
