pub mod Orders
pub mod Tries
