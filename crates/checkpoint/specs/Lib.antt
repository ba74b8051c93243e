pub mod Checkpoints
pub mod Checking
pub mod Answers
