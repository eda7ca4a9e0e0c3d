pub mod Agrees
pub mod Doing
