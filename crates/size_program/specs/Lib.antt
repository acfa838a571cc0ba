pub mod Program
pub mod Maps
pub mod Tables
pub mod Answers
