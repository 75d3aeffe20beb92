pub mod Outcomes
pub mod Running
pub mod Replaying
