pub mod PartForms
pub mod FieldForms
pub mod Worths
