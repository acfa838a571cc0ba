pub mod CountForms
pub mod ClashForms
pub mod ResultForms
