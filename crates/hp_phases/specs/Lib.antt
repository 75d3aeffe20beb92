pub mod Phases
pub mod Linux
