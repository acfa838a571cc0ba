pub mod Fields
pub mod PartForms
pub mod BlankForms
pub mod HaveForms
pub mod WithForms
pub mod AnswerForms
pub mod Examples
