pub mod Claims
pub mod Parts
