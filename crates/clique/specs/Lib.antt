pub mod Branching
pub mod Association
pub mod Call
pub mod Answers
pub mod LentRules
pub mod Carried
