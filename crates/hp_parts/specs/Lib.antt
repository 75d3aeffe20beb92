pub mod Fits
pub mod Capacity
pub mod State
pub mod Turns
pub mod View
