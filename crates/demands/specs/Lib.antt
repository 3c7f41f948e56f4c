pub mod Series
pub mod Watched
pub mod Callers
