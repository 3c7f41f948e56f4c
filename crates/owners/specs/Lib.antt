-- The definitions that the contracts cite: the owned regions, who may set a right, the calls' answers, and a change by
-- a caller; and how far a verdict reaches.
pub mod Regions
pub mod Rules
pub mod Calls
pub mod Changes
pub mod Reach
