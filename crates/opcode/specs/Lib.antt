pub mod Reading
pub mod Word
