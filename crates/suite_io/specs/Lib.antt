pub mod Calls
pub mod Contents
pub mod Taken
pub mod Held
pub mod Parts
