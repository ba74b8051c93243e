pub mod Faults
pub mod FirstTested
