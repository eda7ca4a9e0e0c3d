pub mod Entries
pub mod LastCall
pub mod TakenPieces
