pub mod Examples
pub mod Filled
pub mod Placed
pub mod Having
pub mod Spread
pub mod SoundList
pub mod Agreement
