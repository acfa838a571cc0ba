pub mod PartForms
pub mod NameForms
