pub mod Meaning
pub mod Renaming
