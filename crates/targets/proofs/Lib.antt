-- The laws of targets.
pub mod ChainLaws
pub mod TargetLaws
pub mod PackLaws
pub mod PaintLaws
pub mod PartLaws
pub mod HeightLaws
pub mod LeafLaws
pub mod GivenLaws
pub mod HaveLaws
pub mod SearchLaws
pub mod EntryLaws
pub mod PoolLaws
pub mod WantedLaws
pub mod UniqueLaws
