pub mod Asked
pub mod Drafts
pub mod Following
pub mod Lines
pub mod Loose
pub mod Reading
pub mod Tidy
