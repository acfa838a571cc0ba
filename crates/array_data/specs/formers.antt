pub mod handle
