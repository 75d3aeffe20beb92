pub mod Eager
pub mod Endings
pub mod Places
pub mod Private
pub mod Scheduled
pub mod Schedules
pub mod Search
pub mod Turns
