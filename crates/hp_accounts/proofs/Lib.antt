pub mod Balancing
pub mod Keeping
pub mod Reserving
