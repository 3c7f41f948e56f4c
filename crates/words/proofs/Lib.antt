-- The laws of the definitions, and examples of them.
pub mod RightsLaws
pub mod StretchLaws
pub mod TurnLaws
pub mod PassingLaws
pub mod RegionLaws
pub mod Examples
