pub mod Painting
pub mod Palettes
