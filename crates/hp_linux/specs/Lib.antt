pub mod Following
pub mod Late
pub mod Lines
pub mod Promises
pub mod Recordings
pub mod Rows
pub mod Whole
