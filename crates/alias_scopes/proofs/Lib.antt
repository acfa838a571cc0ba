pub mod ScopeForms
