pub mod Entries
pub mod Kept
pub mod Laws
pub mod Rows
