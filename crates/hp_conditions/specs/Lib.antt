pub mod Lines
pub mod Numbers
pub mod Pieces
pub mod Sought
pub mod Words
