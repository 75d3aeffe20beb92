pub mod Recalling
