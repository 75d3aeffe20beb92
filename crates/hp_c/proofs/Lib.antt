pub mod Running
pub mod Scripts
pub mod Searching
