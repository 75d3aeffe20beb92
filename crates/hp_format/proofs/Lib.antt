mod Faults
mod Following
mod Given
mod Led
mod LedLines
mod Readings
mod Tidied
