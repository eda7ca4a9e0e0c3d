pub mod Answers
pub mod Refusals
pub mod Shown
pub mod HostAnswers
