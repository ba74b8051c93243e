pub mod Descent
pub mod Call
pub mod Answers
pub mod Calls
pub mod DescentProperty
