pub mod Following
pub mod Promising
pub mod Trying
pub mod Whole
