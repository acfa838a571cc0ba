pub mod PlaceForms
