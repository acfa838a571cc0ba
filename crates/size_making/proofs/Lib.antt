pub mod MakingForms
pub mod UseForms
pub mod PrimitiveForms
pub mod PlacingForms
pub mod StandingForms
