pub mod Auditing
pub mod States
