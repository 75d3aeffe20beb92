pub mod CallWords
pub mod Calls
pub mod Holders
pub mod Happenings
pub mod Linux
pub mod Moments
pub mod Phases
