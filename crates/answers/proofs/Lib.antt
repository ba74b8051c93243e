pub mod Choice
pub mod Filled
pub mod RefusalNumbers
pub mod FirstRefusal
pub mod Stores
