pub mod Answers
pub mod Endings
pub mod Noted
pub mod Output
