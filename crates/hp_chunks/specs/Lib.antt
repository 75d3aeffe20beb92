pub mod Cached
pub mod Chunks
pub mod Framed
