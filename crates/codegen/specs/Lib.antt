pub mod Loops
pub mod Items
pub mod Targets
pub mod Arithmetic
pub mod Compiled
pub mod Drafted
