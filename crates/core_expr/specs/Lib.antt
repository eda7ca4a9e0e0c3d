pub mod Counting
pub mod Held
pub mod Making
pub mod Places
pub mod Standing
pub mod Targets
pub mod Values
pub mod Writing
