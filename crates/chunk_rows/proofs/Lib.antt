pub mod Refitted
