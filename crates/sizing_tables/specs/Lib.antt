pub mod Bound
pub mod Trees
pub mod Noted
pub mod Records
pub mod Containing
pub mod Told
pub mod Claims
