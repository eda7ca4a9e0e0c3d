pub mod Drafts
pub mod Faults
pub mod Made
pub mod Places
pub mod Locals
pub mod Texts
