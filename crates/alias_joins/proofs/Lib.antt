pub mod UniteForms
pub mod DeclaredForms
