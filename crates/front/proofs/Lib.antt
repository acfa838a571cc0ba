pub mod Answering
pub mod Entering
pub mod Joining
pub mod Searching
pub mod Gathering
