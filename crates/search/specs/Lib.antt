pub mod Call
pub mod Calls
pub mod ThirdProperty
pub mod Answers
pub mod Words
pub mod Walking
pub mod Rows
