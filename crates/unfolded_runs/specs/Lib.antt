pub mod Results
pub mod Claims
pub mod Prepared
