pub mod CaptureForms
