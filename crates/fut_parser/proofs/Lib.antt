pub mod Answering
pub mod DecLaws
