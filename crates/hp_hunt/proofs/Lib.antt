pub mod Claimed
pub mod Cuts
pub mod Explored
pub mod Lefts
pub mod Watched
pub mod Answered
pub mod Compared
