pub mod Bytes
pub mod Arith
pub mod Numeral
pub mod Meets
pub mod Reading
