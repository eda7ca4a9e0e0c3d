pub mod Examples
pub mod Pigeon
pub mod Borders
