pub mod Cleared
pub mod Leading
pub mod Tops
