pub mod Locals
pub mod Rows
pub mod Alike
pub mod Stands
pub mod Told
pub mod Taken
pub mod Patterns
pub mod Components
pub mod Runs
pub mod Records
pub mod Packing
pub mod Binding
pub mod Operating
pub mod Arguments
pub mod Simulation
pub mod Programs
pub mod Rising
pub mod Mirror
mod Examples
mod Told_examples
