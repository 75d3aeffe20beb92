pub mod Endings
pub mod Searching
