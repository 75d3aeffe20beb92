pub mod Pages
pub mod Adding
pub mod Twice
pub mod AllKinds
pub mod Ordered
