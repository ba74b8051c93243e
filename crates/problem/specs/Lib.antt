pub mod Problem
pub mod Lent
pub mod VertexSets
pub mod OwnEdges
pub mod Answers
