pub mod Claims
pub mod Conditions
pub mod Cutting
pub mod Hunting
pub mod Lowering
pub mod Numbers
pub mod Watching
