pub mod DefinitionForms
