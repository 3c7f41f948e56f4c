-- The laws of the definitions, and examples of them.
pub mod TestLaws
pub mod SlotLaws
pub mod BufferLaws
pub mod LayoutLaws
pub mod CheckLaws
pub mod FlushLaws
pub mod AgreeLaws
pub mod VerdictLaws
pub mod AgainLaws
pub mod SaysLaws
pub mod Examples
