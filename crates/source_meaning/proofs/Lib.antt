pub mod Laws
pub mod Steady
pub mod Depth
pub mod Joins
pub mod Ticks
