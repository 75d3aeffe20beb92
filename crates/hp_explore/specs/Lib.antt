pub mod Claims
pub mod Explored
pub mod Inverses
pub mod CanNow
pub mod RunLines
pub mod Schedule
pub mod SoFar
pub mod Text
