-- The laws of owned regions.
pub mod PlaceLaws
pub mod BitLaws
pub mod RuleLaws
pub mod ReachLaws
pub mod CallLaws
pub mod ExportLaws
pub mod StoreLaws
pub mod OutcomeLaws
pub mod DisjointLaws
pub mod MovedLaws
pub mod Examples
pub mod MayLaws
pub mod ByLaws
