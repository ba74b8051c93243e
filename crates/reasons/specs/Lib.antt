pub mod Reasons
pub mod Rows
pub mod Answers
