pub mod Readings
pub mod ReadProblem
pub mod MarkedGraphs
