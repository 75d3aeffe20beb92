pub mod Facts
pub mod Gathering
pub mod Noting
pub mod Phases
pub mod Summaries
pub mod SummaryText
