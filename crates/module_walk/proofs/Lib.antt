pub mod Laws
pub mod ModLaws
pub mod SigLaws
pub mod DecLaws
pub mod FileLaws
mod PartLaws
mod ImportLaws
mod Calling
