pub mod Recoverable
pub mod Given
pub mod Sources
pub mod Texts
pub mod Refusals
