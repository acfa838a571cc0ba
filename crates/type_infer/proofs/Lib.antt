pub mod Results
pub mod Tables
pub mod Rows
pub mod Beginning
pub mod Building
pub mod Schemes
pub mod Answering
pub mod Layers
