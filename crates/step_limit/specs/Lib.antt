pub mod StepLimits
pub mod Answers
