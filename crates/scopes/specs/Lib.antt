pub mod Uses
pub mod Faults
pub mod Standing
pub mod Capturing
pub mod Texts
