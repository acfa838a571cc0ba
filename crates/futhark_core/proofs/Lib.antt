pub mod OneEntry
pub mod Ready
pub mod Rows
pub mod RowLaws
pub mod Settling
pub mod Misfitting
pub mod Misusing
pub mod Reading
pub mod Completing
pub mod Opening
mod Filing
