-- The laws behind the program's contracts, and what they come to for a whole input.
pub mod TextLaws
pub mod NumeralLaws
pub mod ServesLaws
pub mod HearsLaws
pub mod ChunkLaws
pub mod PageLaws
pub mod ShowLaws
pub mod ProgramLaws
mod Examples
