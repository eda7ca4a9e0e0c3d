pub mod State
pub mod Captured
pub mod Shared
pub mod Inside
pub mod Gaps
pub mod Lending
