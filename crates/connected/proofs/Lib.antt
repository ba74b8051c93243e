pub mod ConnectedTest
pub mod Examples
pub mod Reached
pub mod Spread
