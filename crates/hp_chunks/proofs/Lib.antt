pub mod Chunks
pub mod Copies
pub mod Listing
pub mod Lists
pub mod Present
pub mod Slots
pub mod Tables
pub mod Views
