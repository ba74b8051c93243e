pub mod Labels
pub mod EdgeRows
pub mod Places
pub mod RefusalNumbers
pub mod Runs
pub mod SoundTests
pub mod TablesFit
