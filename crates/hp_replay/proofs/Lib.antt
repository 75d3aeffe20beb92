pub mod BlockedLines
pub mod StateTexts
pub mod Running
pub mod Replays
pub mod StoppedFaults
pub mod Told
pub mod OneText
