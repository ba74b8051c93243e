pub mod WholeTable
pub mod TableLimits
pub mod Foretold
pub mod Rows
pub mod Examples
