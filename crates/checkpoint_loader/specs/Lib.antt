pub mod Answers
pub mod Form
pub mod FaultPlace
pub mod Formed
pub mod Loading
pub mod Between
