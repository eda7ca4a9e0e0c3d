pub mod State
pub mod Inside
pub mod Links
pub mod Grown
