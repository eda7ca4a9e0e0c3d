pub mod Entries
pub mod Joined
pub mod Selected
pub mod Texts
pub mod HostArguments
