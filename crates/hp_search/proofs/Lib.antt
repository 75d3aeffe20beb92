pub mod Bounded
pub mod Closed
pub mod Hastening
pub mod Kept
pub mod Listed
pub mod Made
pub mod Table
pub mod Wanted
