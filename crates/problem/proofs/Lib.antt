pub mod Consistent
pub mod ProblemPasses
pub mod VertexSets
pub mod OwnEdges
