pub mod AllOrdered
pub mod Ordered
pub mod Own
pub mod Permuted
pub mod Turned
