pub mod Layout
pub mod Texts
pub mod Sheets
