pub mod Knowns
pub mod Records
pub mod Arrays
pub mod Deeds
pub mod Telling
pub mod Lowering
pub mod Programs
pub mod Claims
