-- Laws of the census: as a program takes it, beside the check of the theory, and what it finds.
pub mod TallyLaws
pub mod StandLaws
pub mod AlikeLaws
pub mod CensusLaws
pub mod OwnerLaws
pub mod PlaceLaws
pub mod ReadableLaws
