pub mod Words
pub mod Expressions
pub mod Lists
pub mod Functions
pub mod Statements
pub mod Relation
pub mod Places
pub mod Placed
