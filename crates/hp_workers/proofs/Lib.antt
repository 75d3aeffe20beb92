pub mod Collected
pub mod Pieces
pub mod Slots
