pub mod UseForms
pub mod ValueForms
pub mod RecordForms
pub mod OperateForms
pub mod PathForms
pub mod WantedForms
