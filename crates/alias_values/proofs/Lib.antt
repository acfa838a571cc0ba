pub mod Rows
pub mod Forms
pub mod SetForms
pub mod StarForms
pub mod CompareForms
pub mod ValueForms
pub mod NameForms
