mod Formatted
mod Reading
mod Texts
