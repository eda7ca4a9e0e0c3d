pub mod Lines
pub mod Faults
pub mod Reading
pub mod Laws
pub mod Texts
