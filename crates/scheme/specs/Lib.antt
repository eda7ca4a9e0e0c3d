pub mod Making
pub mod Expressions
pub mod Lists
pub mod Functions
pub mod Statements
pub mod Scheme
pub mod Accepts
pub mod Shapes
