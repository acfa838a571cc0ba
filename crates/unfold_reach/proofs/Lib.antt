pub mod Lists
pub mod Tops
pub mod SpanForms
pub mod Reaching
pub mod SizeForms
pub mod Marking
