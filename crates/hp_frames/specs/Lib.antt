pub mod Bank
pub mod Records
