pub mod Laying
pub mod Widths
pub mod Happenings
pub mod Texts
pub mod JsonLaying
pub mod JsonTexts
