pub mod Named
pub mod Quiet
pub mod Fields
pub mod Ways
pub mod Outcomes
pub mod Reading
pub mod Known
pub mod Suiting
pub mod Scalars
pub mod Environments
pub mod Finding
pub mod Flats
pub mod Datas
pub mod Entered
pub mod Alone
pub mod Alike
pub mod Branches
pub mod Applications
pub mod Words
pub mod Patterns
pub mod Mapping
pub mod Reducing
pub mod Mapping_several
pub mod Maps
pub mod Elements
pub mod Indexing
pub mod Declared
pub mod First_order
pub mod Row_primitives
pub mod Zipping
pub mod Scalar_primitives
pub mod Sifting
pub mod Slice_ends
pub mod Slicing
pub mod Updating
pub mod Operations
pub mod Primitives
pub mod Functions
pub mod Lets
pub mod Loops
pub mod Law
pub mod More_tops
pub mod Programs
pub mod Given
pub mod Misfits
pub mod Primitive_misfits
pub mod Reporting
pub mod Size_reports
pub mod Plain_reports
mod Examples
mod Program_example
mod Number_example
mod Recording
mod Triples
mod Scattering
mod Histogram
mod Ranging
mod Coercing
