pub mod Among
pub mod Same
