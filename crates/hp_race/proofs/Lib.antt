pub mod Lines
pub mod Making
pub mod Parting
pub mod Told
mod Kept
