pub mod EverFound
pub mod FlowSources
pub mod Found
pub mod Joined
pub mod Rows
pub mod PlainSources
