pub mod Substitutes
pub mod Soundness
pub mod Agreeing
pub mod Answers
