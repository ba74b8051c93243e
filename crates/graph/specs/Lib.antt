pub mod Graph
pub mod Answers
pub mod Lent
pub mod Soundness
pub mod EdgeRows
