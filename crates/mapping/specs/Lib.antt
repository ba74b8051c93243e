pub mod Common
pub mod Order
pub mod Answers
pub mod Check
pub mod LentRows
pub mod Apart
