pub mod Boxes
pub mod Counts
pub mod Examples
pub mod LineFronts
pub mod Names
pub mod Scripts
pub mod Slots
