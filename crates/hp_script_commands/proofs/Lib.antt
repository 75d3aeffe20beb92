mod Answering
mod Chosen
mod Hunted
mod Scheduled
mod Searched
pub mod Tabled
