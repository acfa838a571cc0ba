pub mod Stages
pub mod Trees
pub mod Wide
pub mod Combined
