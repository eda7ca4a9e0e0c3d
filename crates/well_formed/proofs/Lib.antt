pub mod Lists
pub mod Shallow
pub mod Tests
