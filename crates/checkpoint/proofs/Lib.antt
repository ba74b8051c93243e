pub mod CheckpointPasses
pub mod CheckpointState
pub mod FilledPath
pub mod Padding
pub mod ShapeByCheck
pub mod ShapeTest
pub mod StateShape
pub mod UnusedBytes
