pub mod Lines
pub mod Counts
pub mod Findings
pub mod Frames
pub mod Text
