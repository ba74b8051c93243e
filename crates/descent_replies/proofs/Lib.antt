pub mod DescentKept
pub mod DescentArms
