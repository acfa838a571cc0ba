pub mod GivenForms
pub mod PartForms
pub mod RuleForms
pub mod SideForms
pub mod StepForms
pub mod CallForms
pub mod RowForms
pub mod ResultForms
