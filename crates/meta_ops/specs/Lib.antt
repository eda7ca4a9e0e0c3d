pub mod Acts
pub mod Orders
pub mod Steps
