-- The laws: of lists, of the gate found, of setting and removing, and of steps.
pub mod ListLaws
pub mod LayoutLaws
pub mod GateLaws
pub mod SetLaws
pub mod StepLaws
pub mod SaysLaws
pub mod Examples
