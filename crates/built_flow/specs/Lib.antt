pub mod BuiltLaid
pub mod BuiltWhole
pub mod LaidLie
