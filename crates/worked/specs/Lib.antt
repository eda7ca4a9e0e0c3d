pub mod Works
pub mod Straight
pub mod Functions
pub mod Handlers
pub mod Constructs
pub mod Builtins
