pub mod Pieces
pub mod Runs
pub mod Columns
pub mod Placing
pub mod Holding
pub mod Exact
pub mod Others
