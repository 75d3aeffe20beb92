pub mod Carried
pub mod Key
pub mod Numbers
pub mod Packed
