pub mod Types
pub mod MapForms
pub mod StepLaws
pub mod ScopeForms
pub mod NoteForms
