pub mod TakingForms
pub mod ChoosingForms
pub mod ArrowForms
pub mod FunctionForms
