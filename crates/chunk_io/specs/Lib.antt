pub mod Items
pub mod Faults
pub mod Reading
pub mod Laws
pub mod Fitting
pub mod Texts
