pub mod Examples
pub mod Fuel
pub mod Judge
pub mod MadeReader
pub mod Openings
pub mod ReadLoop
pub mod ReadSound
pub mod RefusalNumbers
