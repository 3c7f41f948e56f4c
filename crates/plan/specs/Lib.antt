pub mod Plan
pub mod Aims
pub mod Planning
pub mod Edges
pub mod Goals
