pub mod MakeForms
pub mod PickForms
pub mod ReshapeForms
