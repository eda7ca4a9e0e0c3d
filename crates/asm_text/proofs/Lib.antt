pub mod Cutting
pub mod Places
pub mod Phrases
pub mod Joined
pub mod Renamed
pub mod Begins
pub mod Loop
pub mod Fronts
pub mod Digits
pub mod Quotes
pub mod Signed
pub mod Fields
pub mod Names
pub mod Words
pub mod LineForms
pub mod Functions
pub mod Plain
pub mod Shown
pub mod Whole
pub mod Differing
pub mod Fitted
pub mod OneAnswer
pub mod Turns
pub mod LoopStates
mod Examples
mod Uncounted
