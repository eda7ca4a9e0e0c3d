pub mod Sources
pub mod Texts
pub mod Reading
pub mod Laws
