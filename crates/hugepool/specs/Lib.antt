pub mod Colouring
pub mod Requests
pub mod Shown
pub mod Status
pub mod Traces
pub mod Words
