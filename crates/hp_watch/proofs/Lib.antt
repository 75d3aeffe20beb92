pub mod Begun
pub mod Holders
pub mod Happenings
pub mod Moments
pub mod Phases
pub mod Standing
