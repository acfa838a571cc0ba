pub mod Closed
pub mod Found
pub mod Handed
pub mod Made
pub mod Signs
