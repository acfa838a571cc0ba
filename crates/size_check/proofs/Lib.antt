pub mod Checking
pub mod DefinitionLaws
pub mod ProgramLaws
pub mod TableForms
