pub mod Heard
pub mod Lines
pub mod Script
pub mod Hosts
pub mod Views
