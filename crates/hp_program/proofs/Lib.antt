pub mod Answers
pub mod Buffered
