pub mod Uses
pub mod Runs
pub mod Counts
