pub mod Formatting
pub mod Strict
pub mod Traces
