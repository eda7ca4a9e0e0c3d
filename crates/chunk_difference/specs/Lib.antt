pub mod Difference
pub mod Finding
