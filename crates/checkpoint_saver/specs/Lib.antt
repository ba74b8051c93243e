pub mod Answers
pub mod Saving
