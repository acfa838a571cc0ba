pub mod Renaming
pub mod HeldLaws
pub mod MeetLaws
pub mod ChoiceLaws
pub mod ReadLaws
pub mod FillForms
pub mod MakerLaws
pub mod TakeLaws
