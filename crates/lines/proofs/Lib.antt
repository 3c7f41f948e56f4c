-- Why the functions of `lines` keep their contracts, and what those give: FormLaws of one line, FeedLaws of a whole
-- input.
pub mod DigitLaws
pub mod ReadLaws
pub mod WordLaws
pub mod CutLaws
pub mod LineLaws
pub mod StepLaws
pub mod HeldLaws
pub mod CallLaws
pub mod FeedLaws
pub mod Examples
pub mod FormLaws
