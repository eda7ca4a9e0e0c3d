pub mod Putting
pub mod Reporting
pub mod FitsStripped
pub mod FitsWidened
mod WordLemmas
pub mod Working
pub mod Ran
pub mod Facts
pub mod Ends
pub mod Clauses
pub mod Meant
pub mod Promised
mod Tried
mod Mentioned
