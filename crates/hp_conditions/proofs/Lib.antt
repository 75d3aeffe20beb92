pub mod Adding
pub mod Gathering
pub mod Naming
pub mod Splitting
