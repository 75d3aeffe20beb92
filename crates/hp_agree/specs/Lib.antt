pub mod Flat
pub mod Listed
pub mod Agreement
