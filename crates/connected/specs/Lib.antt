pub mod Connected
pub mod Spreading
