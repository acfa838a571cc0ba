pub mod LackForms
pub mod DifferForms
