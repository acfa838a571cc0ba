pub mod SettleForms
pub mod SettleLaws
pub mod ChoosingForms
pub mod OpenLaws
