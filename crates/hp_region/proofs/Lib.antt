pub mod Canonical
pub mod Compared
pub mod Held
pub mod Lists
pub mod Sets
pub mod Sought
pub mod Walked
pub mod Words
