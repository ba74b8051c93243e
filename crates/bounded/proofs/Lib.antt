pub mod AllBelow
pub mod Below
pub mod Endings
pub mod SomeBelow
pub mod First
pub mod Tells
pub mod Settled
