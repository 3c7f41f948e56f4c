-- Laws: of lists of runs, of the fold over words, of the lent words, and of tables by memory words; and what the
-- listing may answer.
pub mod RunLaws
pub mod LongestLaws
pub mod ScanLaws
pub mod ShownLaws
pub mod SheetLaws
pub mod LevelLaws
pub mod ListingLaws
pub mod Examples
