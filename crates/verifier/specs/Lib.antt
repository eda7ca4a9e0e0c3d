pub mod Flow
pub mod Functions
pub mod Least
pub mod Registers
pub mod Rules
pub mod Verify
pub mod Refusing
