pub mod Indices
pub mod Limits
pub mod Mappings
pub mod Numbers
pub mod Pages
pub mod Text
