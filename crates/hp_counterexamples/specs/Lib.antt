pub mod Changing
pub mod Counting
pub mod Cutting
pub mod Locking
pub mod Promising
pub mod Runs
