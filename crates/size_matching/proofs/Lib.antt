pub mod Steps
pub mod CompareForms
pub mod MatchForms
pub mod Examples
