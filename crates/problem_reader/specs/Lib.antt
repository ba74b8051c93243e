pub mod ProblemReading
pub mod Answers
