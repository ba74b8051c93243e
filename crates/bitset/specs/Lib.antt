pub mod Members
pub mod Count
pub mod Least
