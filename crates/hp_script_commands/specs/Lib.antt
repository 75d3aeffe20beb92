pub mod Choosing
pub mod Hunting
pub mod Racing
pub mod Runs
pub mod Searching
pub mod Summing
pub mod Tabling
