pub mod Sets
pub mod Programs
