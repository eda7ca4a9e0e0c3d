pub mod Places
pub mod Activated
pub mod DraftLists
pub mod Encoded
