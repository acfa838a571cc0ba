mod Splitting
mod Tidying
mod Joining
