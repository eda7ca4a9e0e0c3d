pub mod Alike
pub mod Bare
