pub mod Counted
pub mod Gathered
pub mod Laid
pub mod Noted
